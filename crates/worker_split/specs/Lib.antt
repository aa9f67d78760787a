pub mod Expansions
pub mod Jobs
pub mod Refusals
pub mod Rounds
pub mod Shares
pub mod Work
