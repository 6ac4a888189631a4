-- In order of reading: what is read and what it comes to, then what the code does byte by byte.
pub mod Form
pub mod Counts
pub mod Entries
pub mod Totals
pub mod Reads
pub mod Printed
pub mod Filling
pub mod Night
