pub mod AskLemmas
pub mod NameLemmas
pub mod NumberLemmas
pub mod OneMeaning
pub mod ReadingLemmas
pub mod WordLemmas
