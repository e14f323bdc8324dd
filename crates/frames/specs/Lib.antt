pub mod Frames
pub mod Words
pub mod Examples
pub mod Apart
