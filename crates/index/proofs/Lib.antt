pub mod Reading
pub mod Filling
pub mod Answers
pub mod Demand1
pub mod Unique
