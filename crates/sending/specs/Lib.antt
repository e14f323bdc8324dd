pub mod Answer
pub mod Whole
pub mod Demand1
