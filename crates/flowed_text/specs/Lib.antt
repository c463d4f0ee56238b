-- What public clauses cite.
pub mod Flowed
-- What only proofs and private functions use.
pub mod Writing
