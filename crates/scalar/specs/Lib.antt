-- In order of reading.
pub mod Order
pub mod Products
pub mod Halving
pub mod Root
pub mod Powers
pub mod SquareRoot
pub mod SquareRootComputed
pub mod Coefficients
pub mod Exact
-- Of what follows no offered contract speaks: contracts of private functions cite it, and laws.
pub mod Steps
