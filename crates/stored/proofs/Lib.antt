pub mod Laws
pub mod Again
pub mod Unique
