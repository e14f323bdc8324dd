pub mod Slots
pub mod Rows
pub mod Quickly
pub mod Unique
