pub mod Counters
pub mod Demand1
