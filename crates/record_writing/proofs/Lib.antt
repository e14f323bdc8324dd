pub mod Laws
pub mod Readable
pub mod Demand1
pub mod Unique
