pub mod Drawings
pub mod Scale
pub mod Shades
