pub mod Sends
pub mod Receives
pub mod Success
pub mod Unique
pub mod Demand1
