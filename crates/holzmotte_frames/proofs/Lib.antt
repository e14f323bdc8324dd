pub mod Lists
pub mod Demand1
pub mod Unique
