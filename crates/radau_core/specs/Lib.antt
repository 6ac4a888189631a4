-- What two arrays and the code's own types stand for. What an advance does is defined in `solve_blocks`.
pub mod Choices
pub mod Places
