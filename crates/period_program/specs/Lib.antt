pub mod CandidateTexts
pub mod CommandLine
pub mod Finding
pub mod LastSession
pub mod PeriodLine
pub mod Status
