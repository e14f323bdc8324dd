pub mod InLock
