pub mod Number
pub mod First
pub mod Outcome
pub mod Refused
