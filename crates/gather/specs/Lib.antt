pub mod Gather
pub mod File
