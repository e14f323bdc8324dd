pub mod InLock
pub mod Unique
