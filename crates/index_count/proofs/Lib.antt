pub mod Counts
pub mod Answers
pub mod Built
pub mod Demand1
pub mod Unique
