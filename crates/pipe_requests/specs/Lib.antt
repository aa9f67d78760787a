pub mod Bad
pub mod Blocks
pub mod Meaning
pub mod Names
pub mod Numbers
pub mod Words
