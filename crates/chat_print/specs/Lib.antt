-- What public clauses cite.
pub mod Moments
