-- What public clauses cite.
pub mod Reading
pub mod Cards
pub mod Spelling
