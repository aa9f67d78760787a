pub mod Judged
pub mod LiveRuns
pub mod NodeSquares
