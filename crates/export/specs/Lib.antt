-- In order of reading.
pub mod Talk
pub mod Held
pub mod Defaults
pub mod Ends
pub mod Entries
pub mod Matrices
