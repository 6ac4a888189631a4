-- Laws of pivots, and of the stages that have no result.
mod Stages
pub mod Pivots
pub mod Determinism
