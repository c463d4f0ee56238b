-- What public clauses cite.
pub mod Tokens
pub mod People
pub mod Written
-- What only proofs and private functions use.
pub mod States
pub mod Views
