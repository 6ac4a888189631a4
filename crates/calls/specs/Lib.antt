-- In order of reading.
pub mod Calls
pub mod History
