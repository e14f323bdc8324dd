pub mod Outcomes
pub mod Sent
pub mod Received
pub mod Reading
pub mod Unique
