pub mod Acceptance
pub mod BoxesInRange
mod CellsAtRest
pub mod CutRuns
pub mod Endings
mod FileTexts
pub mod KeptComments
pub mod LastPatterns
mod Onward
pub mod OneRun
pub mod OtherWorkers
pub mod Reports
pub mod SessionRuns
pub mod Sessions
pub mod Steps
mod WholeReports
