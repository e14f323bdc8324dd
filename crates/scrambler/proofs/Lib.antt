pub mod Laws
pub mod Unique
mod Checks
mod Words
mod Next
pub mod Strides
mod Mirrors
