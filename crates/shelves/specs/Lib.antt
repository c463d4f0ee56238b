-- What public clauses cite.
pub mod MemoryShelf
pub mod Folder
pub mod FileShelf
pub mod RealFolder
pub mod MemoryFolder
pub mod Calls
pub mod History
pub mod Disks
-- What private functions and proofs use.
pub mod Laws
pub mod Room
pub mod Files
pub mod Kept
