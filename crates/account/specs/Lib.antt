-- In order of reading.
pub mod Journal
pub mod Reading
pub mod Truth
pub mod Latest
pub mod Strides
pub mod Account
pub mod Points
pub mod Demand
