pub mod CommandLine
pub mod Status
