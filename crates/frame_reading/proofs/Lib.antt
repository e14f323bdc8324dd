pub mod Characters
pub mod Turning
