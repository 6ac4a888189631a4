-- In order of reading.
pub mod Memory
pub mod Writer
pub mod RoundTrips
pub mod Rewritten
