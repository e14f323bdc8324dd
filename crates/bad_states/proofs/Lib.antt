pub mod Orderly
pub mod Limits
pub mod Unique
