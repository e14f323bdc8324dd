pub mod Whole
pub mod Low
pub mod Answers
pub mod Unique
pub mod Verdicts
pub mod Demand1
