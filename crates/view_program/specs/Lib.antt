pub mod CommandLine
pub mod Drawn
pub mod PictureFormat
pub mod PictureLine
pub mod Shown
pub mod Status
pub mod View
