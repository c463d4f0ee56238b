-- What public clauses cite.
pub mod Keeping
pub mod Opening
