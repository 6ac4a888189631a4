-- In order of reading.
pub mod Rows
pub mod Tolerances
pub mod Opening
pub mod Admission
