-- In order of reading.
pub mod Talk
pub mod Solve
