-- In order of reading: laws that the proofs cite, then the square root and the coefficients, what users cite
-- (Theorems), and what is computed.
pub mod Tests
pub mod OrderLaws
pub mod PatternLaws
pub mod HalvingLaws
pub mod ProductLaws
pub mod RootLaws
pub mod RootSteps
pub mod Squares
pub mod DigitLaws
pub mod RoundingLaws
pub mod SquareRoots
pub mod TableLaws
pub mod Theorems
pub mod Refuted
pub mod Determinism
