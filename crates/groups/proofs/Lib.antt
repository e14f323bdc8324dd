pub mod Four
pub mod Unique
