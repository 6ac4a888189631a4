-- What the 64 bits of a double are, and what a digit of them is.
pub mod Pattern
pub mod Digit
