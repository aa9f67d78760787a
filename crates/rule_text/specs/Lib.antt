pub mod Neighbourhood
pub mod CountRule
pub mod DigitMarks
pub mod RuleFault
pub mod RuleText
pub mod RuleCut
pub mod RuleCode
