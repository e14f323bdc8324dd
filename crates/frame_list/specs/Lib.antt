pub mod Answer
pub mod Demand1
pub mod Listing
pub mod Examples
