-- What public clauses cite.
pub mod States
pub mod Stands
pub mod Stored
pub mod Commits
-- What only private functions use.
pub mod Making
