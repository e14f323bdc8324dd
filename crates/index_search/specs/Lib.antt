pub mod Search
pub mod Answer
pub mod Parts
pub mod Demand1
pub mod Built
pub mod Examples
