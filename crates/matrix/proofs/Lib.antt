-- In order of reading: what users cite (Theorems), examples and refuted claims, one outcome for an input, refusals,
-- then the laws that the proofs cite.
pub mod Theorems
pub mod Examples
pub mod Refuted
pub mod Determinism
pub mod Refusals
pub mod Sizes
pub mod Passes
pub mod Interchange
pub mod Cells
pub mod Rows
pub mod Cases
pub mod Sides
pub mod Backward
