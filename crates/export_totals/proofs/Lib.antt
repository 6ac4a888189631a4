-- The record goes over the border and back; then the contracts settle their calls.
pub mod RecordLaws
pub mod BorderLaws
pub mod Theorems
pub mod Determinism
