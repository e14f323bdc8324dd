pub mod Laws
pub mod Applied
pub mod Demand1
pub mod Unique
pub mod LastSummary
