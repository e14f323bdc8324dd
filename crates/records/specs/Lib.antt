pub mod Record
pub mod Demand1
pub mod OldReader
pub mod Examples
