-- In order of reading: digits and numbers read and written, then lines, then that a sheet is read exactly as it is
-- written. Theorems is what users cite.
pub mod DigitsLaws
pub mod NumbersLaws
pub mod Inverse
pub mod Passages
pub mod ReaderLaws
pub mod Parts
pub mod FillLaws
pub mod AnswerLaws
pub mod Sheets
pub mod Accepted
pub mod FirstWrong
pub mod BegunSheet
pub mod Refused
pub mod Theorems
pub mod Determinism
pub mod Samples
pub mod Refuted
