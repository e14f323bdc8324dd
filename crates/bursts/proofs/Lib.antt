pub mod Going
pub mod Reached
pub mod Small
pub mod Sums
pub mod Joined
pub mod Calls
pub mod Unique
pub mod Demand1
