-- In order of reading; Theorems is what users cite.
pub mod AdvanceKept
pub mod RunLaws
pub mod SettingsLaws
pub mod Theorems
pub mod Determinism
