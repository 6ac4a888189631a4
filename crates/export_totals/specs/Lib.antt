-- The record of a night as words, and what is answered and left.
pub mod Record
pub mod Border
