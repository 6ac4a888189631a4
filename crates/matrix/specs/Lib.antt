-- In order of reading.
pub mod Answers
pub mod Complex
pub mod Elimination
pub mod Lu
pub mod LuComplex
pub mod Substitution
pub mod Linear
pub mod LinearComplex
-- Of what follows no offered contract speaks: contracts of private functions cite it, and laws.
pub mod Reordered
pub mod Lent
