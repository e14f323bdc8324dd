pub mod Lock
pub mod Rate
