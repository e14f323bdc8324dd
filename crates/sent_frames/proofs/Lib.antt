pub mod Carried
pub mod Control
pub mod Words
pub mod Legal
pub mod SentFrames
