pub mod TrimLemmas
pub mod NumberLemmas
pub mod LineLemmas
pub mod SliceLemmas
pub mod FrontLemmas
