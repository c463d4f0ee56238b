-- What public clauses cite.
pub mod Arrivals
