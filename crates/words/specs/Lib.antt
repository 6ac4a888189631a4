-- In order of reading.
pub mod Words
pub mod Loop
pub mod Patterns
pub mod Constants
pub mod Grid
pub mod Contract
