pub mod Plain
pub mod Looking
