pub mod Diagram
pub mod Parts
