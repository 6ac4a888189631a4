-- In order of reading: what is read and what it comes to, then what the code does byte by byte and what is printed.
pub mod Texts
pub mod Reads
pub mod Nights
pub mod Chain
pub mod Printed
