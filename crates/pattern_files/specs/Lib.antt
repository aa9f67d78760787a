pub mod Meaning
pub mod NodeSquares
