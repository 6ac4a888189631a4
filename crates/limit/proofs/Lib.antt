-- In order of reading; Theorems is what users cite.
pub mod Openings
pub mod Advances
pub mod Talks
pub mod Theorems
pub mod Refuted
