-- What public clauses cite.
pub mod Multiparts
pub mod Trees
-- What only proofs and private functions use.
pub mod Walks
