-- What public clauses cite.
pub mod Named
