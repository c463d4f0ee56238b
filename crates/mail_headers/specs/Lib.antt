-- What public clauses cite.
pub mod Headers
pub mod Fields
pub mod Ids
-- What only proofs and private functions use.
pub mod Layout
