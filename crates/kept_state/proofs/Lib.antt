pub mod Stripped
pub mod Storing
pub mod Coding
pub mod Unique
