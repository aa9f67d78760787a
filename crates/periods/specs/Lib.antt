pub mod Laws
pub mod Periods
