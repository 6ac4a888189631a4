-- In order of reading; Theorems, the last, is what users cite.
pub mod RunSound
pub mod FollowsTalk
pub mod Passes
pub mod Pieces
pub mod Judged
pub mod Rounds
pub mod Begins
pub mod SolveFollows
pub mod Talks
pub mod Offered
pub mod HostsAlike
pub mod Theorems
