pub mod Boundary
pub mod Demand1
