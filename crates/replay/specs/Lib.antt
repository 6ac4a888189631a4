-- In order of reading.
pub mod Input
pub mod Word
pub mod Read
pub mod Settings
pub mod Found
pub mod Count
pub mod Parts
pub mod Memory
