-- Laws of bytes held against others, and of words that are read.
pub mod FoundLaws
pub mod ReadLaws
pub mod Determinism
