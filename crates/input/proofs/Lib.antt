pub mod Filled
pub mod Turns
pub mod Unique
