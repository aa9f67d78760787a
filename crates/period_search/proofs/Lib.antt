mod BoxDifferences
mod InRange
mod LeastDivisors
mod MovedBoxes
mod MovedRows
mod MovedRuns
mod NextCandidates
mod OneAnswers
mod ReadNumbers
pub mod SearchEnds
mod SearchSteps
