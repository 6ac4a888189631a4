-- What the exported forecast writes.
pub mod Printout
