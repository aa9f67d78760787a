pub mod AskedRuns
pub mod AskedWords
mod OneLine
pub mod Statuses
mod Told
pub mod WordsFaults
pub mod WindowTexts
