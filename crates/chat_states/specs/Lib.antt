-- What public clauses cite.
pub mod Families
pub mod States
