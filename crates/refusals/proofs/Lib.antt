pub mod Laws
pub mod Outcome
pub mod Unique
