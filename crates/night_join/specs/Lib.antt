-- What is refused, and what two totals come to; then what the code makes of any words.
pub mod Join
pub mod Words
