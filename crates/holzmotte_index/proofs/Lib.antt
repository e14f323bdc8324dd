pub mod Through
pub mod Demand1
pub mod Unique
