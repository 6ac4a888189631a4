-- In order of reading: laws, then what users cite (Theorems).
pub mod FedLaws
pub mod ChainLaws
pub mod TextLaws
pub mod FewLaws
pub mod PrintedLaws
pub mod RunLaws
pub mod StandLaws
pub mod TellLaws
pub mod NightLaws
pub mod Theorems
pub mod Determinism
