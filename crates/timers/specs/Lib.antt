-- What public clauses cite.
pub mod Deadlines
