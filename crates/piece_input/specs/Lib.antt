-- What a read may come to.
pub mod Came
