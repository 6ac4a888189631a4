-- In order of reading; Theorems, the last, is what users cite.
pub mod Defined
pub mod RequestsFixed
pub mod Journals
pub mod Theorems
