-- What public clauses cite.
pub mod Stores
pub mod Kept
-- What private functions cite.
pub mod Entries
pub mod Spots
pub mod Inside
