-- In order of reading: laws, then what users cite (Theorems).
pub mod FedLaws
pub mod NumeralLaws
pub mod FormLaws
pub mod SoundLaws
pub mod CompleteLaws
pub mod TotalsLaws
pub mod LineLaws
pub mod StandLaws
pub mod TellLaws
pub mod ReadsLaws
pub mod WrittenLaws
pub mod Theorems
pub mod Determinism
