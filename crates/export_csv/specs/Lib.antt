-- What the exported lines tell.
pub mod Told
