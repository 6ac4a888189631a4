-- A shelf's state as two numbers.
pub mod Border
