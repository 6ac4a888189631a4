-- In order of reading: laws, what users cite (Theorems), samples, claims that are refuted.
pub mod PutLaws
pub mod DigitLaws
pub mod LineLaws
pub mod Lengths
pub mod Theorems
pub mod Determinism
pub mod Samples
pub mod Refuted
