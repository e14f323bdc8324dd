pub mod Meaning
pub mod Coded
