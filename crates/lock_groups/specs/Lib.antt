pub mod FourInLock
