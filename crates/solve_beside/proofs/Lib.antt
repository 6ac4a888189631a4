-- In order of reading; Walk, the last, is what is cited.
pub mod Branches
pub mod Carried
pub mod Passes
pub mod Rounds
pub mod Judgement
pub mod Reports
pub mod Walk
