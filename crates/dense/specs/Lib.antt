-- In order of reading.
pub mod Answers
pub mod Interpolate
pub mod Bounds
