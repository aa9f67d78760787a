pub mod Boxes
pub mod Candidates
pub mod Divisors
pub mod Rows
pub mod MovedRuns
pub mod Searches
