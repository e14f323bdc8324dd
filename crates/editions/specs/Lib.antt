pub mod Before
pub mod Unchanged
pub mod ThroughC
