pub mod Told
pub mod Fields
pub mod Packing
pub mod Choosing
pub mod Unique
