pub mod Burst
pub mod Joined
pub mod Coded
pub mod Demand1
