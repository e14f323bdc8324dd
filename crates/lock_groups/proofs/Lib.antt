mod FourInLock
