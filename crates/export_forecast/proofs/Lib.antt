-- What is told of a printed forecast; Theorems is what users cite.
pub mod Printouts
pub mod Theorems
pub mod Determinism
