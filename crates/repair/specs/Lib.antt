-- What public clauses cite; the others only the crate's own clauses cite.
pub mod Repaired
pub mod Cards
pub mod Places
pub mod Moves
pub mod Reindexed
pub mod Turned
pub mod Due
pub mod Named
