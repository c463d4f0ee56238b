-- What public clauses cite.
pub mod Envelope
pub mod Requests
pub mod Parts
pub mod Shown
pub mod Files
pub mod Receipts
pub mod Texts
pub mod Reactions
pub mod Contents
pub mod Cards
pub mod Leaves
-- What only proofs and private functions use.
pub mod Views
pub mod Walks
