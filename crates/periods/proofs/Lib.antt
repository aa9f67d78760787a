pub mod Displacements
pub mod Empty
pub mod ManyTimes
pub mod Moves
pub mod Periods
pub mod Returns
