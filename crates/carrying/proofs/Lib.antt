pub mod Reading
pub mod Joining
pub mod Laws
pub mod Unique
