-- In order of reading.
pub mod Settings
pub mod Numbers
pub mod Talk
pub mod Memory
pub mod MemorySetters
pub mod Lent
pub mod Pivots
pub mod Result
