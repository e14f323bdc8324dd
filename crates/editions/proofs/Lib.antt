pub mod OldKinds
pub mod Steps
pub mod Sending
pub mod Receiving
pub mod ThroughC
