pub mod Words
pub mod Quiet
pub mod Apart
pub mod Unique
