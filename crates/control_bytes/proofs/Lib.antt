pub mod High
pub mod Laid
pub mod Scan
pub mod Unique
