-- In order of reading.
pub mod Printed
pub mod Put
pub mod Numerals
pub mod Unread
