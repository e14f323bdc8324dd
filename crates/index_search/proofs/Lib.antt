pub mod Halving
pub mod Nth
pub mod Answers
pub mod Built
pub mod Demand1
pub mod Unique
