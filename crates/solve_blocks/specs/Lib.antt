-- In order of reading.
pub mod Setters
pub mod Events
pub mod Entries
pub mod Scale
pub mod Matrices
pub mod Attempt
pub mod Newton
pub mod Estimate
pub mod Judge
pub mod Report
pub mod Jacobian
pub mod Advance
-- Of what follows no offered contract speaks: contracts of private functions cite it, and laws.
pub mod Reordered
pub mod Needs
