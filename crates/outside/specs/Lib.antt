-- What public clauses cite.
pub mod Causes
pub mod StateFaults
pub mod Bytes
pub mod Places
pub mod Crash
pub mod Moments
pub mod Unsynced
pub mod Lent
pub mod Schedule
pub mod MemorySource
pub mod MemorySink
pub mod FileSource
pub mod FileSink
pub mod RealClock
