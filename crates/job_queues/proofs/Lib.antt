mod Pieces
pub mod Ranges
