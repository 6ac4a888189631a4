-- In order of reading.
pub mod Model
pub mod Answers
pub mod Derivative
pub mod Plan
