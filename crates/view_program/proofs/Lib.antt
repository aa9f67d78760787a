mod PictureLines
pub mod RowsOfBlocks
mod ShownBoxes
mod Views
mod WindowTexts
