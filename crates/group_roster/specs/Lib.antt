-- What public clauses cite.
pub mod Standing
pub mod Setters
