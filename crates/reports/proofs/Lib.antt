-- In order of reading; Theorems is what users cite.
pub mod BeginLaws
pub mod StepLaws
pub mod Meeting
pub mod SheetReports
pub mod WrittenLaws
pub mod Theorems
pub mod Refuted
pub mod Determinism
