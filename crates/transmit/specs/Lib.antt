pub mod Send
pub mod Steps
