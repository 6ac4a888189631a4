-- One outcome for an input.
pub mod Determinism
