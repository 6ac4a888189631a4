-- In order of reading: laws of a reaction and of the tests, then what the derivative is.
pub mod ReactionLaws
pub mod TestLaws
pub mod PlanLaws
pub mod DerivativeLaws
pub mod Theorems
pub mod Listed
pub mod Determinism
pub mod Examples
pub mod Refuted
