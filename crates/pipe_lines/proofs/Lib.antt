pub mod BlockParts
pub mod Errors
pub mod Feeds
pub mod Fronts
pub mod LineEnds
pub mod Parts
pub mod Readings
pub mod Takings
