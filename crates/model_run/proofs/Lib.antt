-- In order of reading.
pub mod HostLaws
pub mod TurnLaws
pub mod Lengths
pub mod Room
pub mod OpeningKept
pub mod TaskLaws
pub mod Refuted
pub mod Determinism
pub mod HostFair
pub mod NoneRefused
pub mod Theorems
