-- In order of reading.
pub mod Refuted
pub mod RefutedNotes
pub mod RefutedStrides
pub mod RefutedReadings
