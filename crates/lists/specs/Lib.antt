-- What public clauses cite.
pub mod Chunks
pub mod Distinct
pub mod Ordered
pub mod Sorted
