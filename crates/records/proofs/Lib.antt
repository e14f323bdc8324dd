pub mod Laws
pub mod Demand1
pub mod OldReader
pub mod Unique
