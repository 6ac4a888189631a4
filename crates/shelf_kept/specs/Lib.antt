-- What a host does that keeps a shelf, and which steps a journal accepted.
pub mod Kept
