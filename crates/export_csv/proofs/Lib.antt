-- A law, and one outcome for an input.
pub mod ToldLaws
pub mod Determinism
