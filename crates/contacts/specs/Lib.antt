-- What public clauses cite.
pub mod Kept
