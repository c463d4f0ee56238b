-- What public clauses cite.
pub mod Buffered
pub mod Known
pub mod Kept
-- What only proofs and private functions use.
pub mod Sound
