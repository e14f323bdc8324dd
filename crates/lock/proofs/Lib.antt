pub mod InLock
pub mod Unique
mod Cases
