mod Endings
pub mod WindowTexts
