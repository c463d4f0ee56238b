-- What public clauses cite.
pub mod Runs
pub mod Words
-- What only proofs and private functions use.
pub mod Views
