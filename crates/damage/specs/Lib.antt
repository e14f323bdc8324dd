pub mod Damage
pub mod Demand3
pub mod InBursts
