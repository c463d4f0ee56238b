-- What public clauses cite; `Orders`, `Ends` and `Dates` apart, which only the crate's own clauses cite.
pub mod Places
pub mod Orders
pub mod Ends
pub mod Dates
