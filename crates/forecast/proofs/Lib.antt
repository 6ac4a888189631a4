-- In order of reading; Theorems is what users cite.
pub mod DoubleLaws
pub mod Turns
pub mod BudgetLasts
pub mod ModelRead
pub mod HostsAgree
pub mod Solves
pub mod Accounts
pub mod Raised
pub mod Samples
pub mod Theorems
pub mod Refuted
pub mod Determinism
