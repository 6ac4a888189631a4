-- In order of reading: which advances accept a step and which report it; what is put at reports is what was accepted;
-- the ring holds what was put; both along a journal; what users cite (Theorems).
pub mod Ways
pub mod Accepted
pub mod Shelves
pub mod Journals
pub mod Theorems
