-- In order of reading.
pub mod Host
pub mod Budget
