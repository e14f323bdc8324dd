pub mod Words
pub mod Demand2
pub mod InBursts
