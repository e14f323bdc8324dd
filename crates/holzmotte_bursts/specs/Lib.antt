pub mod Boundary
pub mod Coded
pub mod Joined
pub mod Demand1
