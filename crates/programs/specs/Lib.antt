pub mod Programs
pub mod Examples
