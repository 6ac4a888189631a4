-- In order of reading: laws of lists, of the tests, of the ring of places, of finding a step, and of each way out; one
-- outcome for an input; when calls refuse; what users cite (Theorems); refuted claims.
pub mod Over
pub mod TestLaws
pub mod Ring
pub mod FindLaws
pub mod PutLaws
pub mod AskLaws
pub mod Determinism
pub mod Outcomes
pub mod Theorems
pub mod Refuted
