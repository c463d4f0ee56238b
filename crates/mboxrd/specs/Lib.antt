-- What public clauses cite.
pub mod Mails
pub mod Reading
pub mod Answers
pub mod Faults
pub mod Growth
pub mod Traced
-- What only proofs and private functions use.
pub mod Remaining
pub mod LineStates
pub mod ToSeparator
pub mod Held
