-- In order of reading: laws, what users cite (Theorems), claims that are refuted.
pub mod TrimLaws
pub mod LineLaws
pub mod Lengths
pub mod PlainText
pub mod Fields
pub mod Units
pub mod ReadingLaws
pub mod ReadBackLaws
pub mod Theorems
pub mod Determinism
pub mod Samples
pub mod Refuted
