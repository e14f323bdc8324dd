pub mod Example
pub mod Marked
pub mod Reasons
pub mod LowPower
