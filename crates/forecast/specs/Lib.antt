-- In order of reading.
pub mod Forecast
pub mod Account
pub mod Told
pub mod Raised
