pub mod Answers
pub mod CommandLine
pub mod Dialogue
pub mod Replies
pub mod RunBytes
pub mod States
pub mod Status
pub mod Steps
