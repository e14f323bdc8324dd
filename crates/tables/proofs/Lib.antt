pub mod Entries
pub mod Unique
