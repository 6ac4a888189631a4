-- The laws that the proofs of the code cite: of the places, of an advance, and of a run put into its places; what users
-- cite; one outcome for an input; and wrong programs.
pub mod PlaceLaws
pub mod CoreLaws
pub mod PackLaws
pub mod Theorems
pub mod Determinism
pub mod Refuted
