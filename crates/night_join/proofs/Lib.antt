-- In order of reading: laws, then what users cite (Theorems).
pub mod TestLaws
pub mod JoinLaws
pub mod PlaceLaws
pub mod AssociativeLaws
pub mod NeutralLaws
pub mod LinesLaws
pub mod ExactLaws
pub mod Theorems
pub mod Determinism
