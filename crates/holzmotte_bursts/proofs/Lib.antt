pub mod Verdicts
pub mod Slices
pub mod Joined
pub mod Unique
pub mod Demand1
