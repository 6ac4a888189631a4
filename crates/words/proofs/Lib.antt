-- Laws that every crate cites: of outcomes, branches, loops, grids and tables; and that the constants are right.
pub mod OneOutcome
pub mod Branch
pub mod Loops
pub mod Grid
pub mod Table
pub mod ConstantLaws
pub mod Theorems
