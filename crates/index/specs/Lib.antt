pub mod Index
pub mod Answer
pub mod Demand1
pub mod Examples
