pub mod Listing
pub mod Answers
pub mod Demand1
pub mod Unique
