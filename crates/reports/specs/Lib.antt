-- In order of reading.
pub mod Beginning
pub mod Step
pub mod Line
pub mod Reports
