pub mod FoundFutures
pub mod Futures
pub mod Quarters
pub mod ShowsCentred
pub mod Tallies
