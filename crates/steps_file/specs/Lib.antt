-- What public clauses cite.
pub mod Lines
pub mod Steps
pub mod Reading
pub mod Answers
pub mod Growth
-- What only proofs and private functions use.
pub mod Passing
