-- In order of reading: laws of kinds and of the numbers in memory, what the writer answers, the writer held against the
-- reader; Theorems is what users cite; then claims that are refuted.
pub mod KindLaws
pub mod MemoryLaws
pub mod AnswerLaws
pub mod HeldLaws
pub mod RoundTripLaws
pub mod RewriteLaws
pub mod Theorems
pub mod Determinism
pub mod Refuted
