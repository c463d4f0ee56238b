-- What public clauses cite.
pub mod Hearing
