-- In order of reading.
pub mod Digits
pub mod Sheet
pub mod Kinds
pub mod Numbers
pub mod Lines
pub mod Malformed
pub mod Fill
pub mod Reader
pub mod Writes
