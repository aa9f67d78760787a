pub mod OpenedWords
mod OpenedResults
pub mod Filling
pub mod Halves
pub mod StaysWithinRoot
pub mod InRange
pub mod Later
pub mod Evicting
pub mod Onward
mod Advancing
pub mod AtRest
pub mod Copying
pub mod Roots
pub mod SecondDesks
pub mod Spread
pub mod Staying
