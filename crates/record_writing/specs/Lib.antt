pub mod Writing
pub mod Readable
pub mod Demand1
pub mod Examples
