-- In order of reading: a law of filling, one outcome for an input, what `interpolate` does, what users cite (Theorems),
-- examples and refuted claims.
pub mod Filling
pub mod Determinism
pub mod Outcomes
pub mod Theorems
pub mod Examples
pub mod Refuted
