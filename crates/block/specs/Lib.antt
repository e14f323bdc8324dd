pub mod Block
pub mod Coded
pub mod Rows
pub mod Types
pub mod Distance
pub mod Demand1
