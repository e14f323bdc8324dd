pub mod SentFrames
