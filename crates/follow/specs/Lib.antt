-- What public clauses cite.
pub mod Words
pub mod Grammar
pub mod Statuses
pub mod Outcome
pub mod Rest
-- What only proofs and private functions use.
pub mod Views
pub mod Replies
