-- That the contracts settle their calls.
pub mod Determinism
