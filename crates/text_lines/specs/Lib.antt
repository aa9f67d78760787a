pub mod Bytes
pub mod Lines
pub mod LinesLeft
pub mod Meaning
pub mod Numbers
pub mod Comments
pub mod Faults
