pub mod Counting
pub mod Answer
pub mod Demand1
pub mod Built
pub mod Examples
