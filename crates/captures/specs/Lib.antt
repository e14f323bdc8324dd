pub mod Captures
pub mod Demand1
