-- In order of reading.
pub mod NumberText
pub mod Table
pub mod ReadBack
