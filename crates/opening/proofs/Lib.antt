-- In order of reading; Theorems is what users cite.
pub mod RowLaws
pub mod PartLaws
pub mod ToleranceLaws
pub mod OpeningLaws
pub mod AdmissionLaws
pub mod Verdicts
pub mod Theorems
pub mod Determinism
pub mod Refuted
pub mod FromRust
pub mod Samples
