-- In order of reading; the last is for a private function alone.
pub mod Shelf
pub mod Answers
pub mod Refusals
pub mod Put
pub mod Ask
pub mod Finding
