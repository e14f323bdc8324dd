pub mod Judged
pub mod File
pub mod Unique
