pub mod Recorded
pub mod Unique
pub mod Demand1
