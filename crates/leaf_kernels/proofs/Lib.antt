pub mod Adders
pub mod Choices
pub mod Futures
pub mod LaneNeighbours
pub mod Lanes
pub mod LifeCells
pub mod Moves
pub mod Neighbours
pub mod SixteenRows
mod Squares
pub mod Stacked
