pub mod Tests
pub mod Starts
pub mod Parts
pub mod Unique
