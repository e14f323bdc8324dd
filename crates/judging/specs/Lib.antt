pub mod Judging
pub mod Coded
