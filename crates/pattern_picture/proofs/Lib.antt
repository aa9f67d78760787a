pub mod Floors
pub mod OneScale
pub mod RowsOfShades
pub mod ShadeRows
pub mod Shading
