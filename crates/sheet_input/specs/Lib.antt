-- What reading to the end may come to.
pub mod Input
