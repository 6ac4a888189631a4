-- In order of reading.
pub mod Changes
