-- What public clauses cite.
pub mod Followed
