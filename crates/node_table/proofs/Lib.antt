pub mod Books
mod Facts
mod Mapped
pub mod WordBooks
pub mod Listings
pub mod Entries
pub mod Steps
pub mod Searching
pub mod Desks
pub mod TwoBlocks
pub mod Refusing
pub mod TwoHalves
mod NineQuarters
mod NineByHalves
mod RefusedNine
mod OverlapsByHalves
pub mod Telling
pub mod Joining
pub mod Leaving
pub mod Vacant
pub mod Ranks
pub mod Reopening
pub mod Openings
pub mod StillReading
pub mod SameStill
pub mod Closing
mod Working
pub mod AtWork
pub mod OneTable
