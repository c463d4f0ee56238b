-- What public clauses cite.
pub mod Feed
pub mod Reached
pub mod Going
pub mod Following
pub mod Spending
pub mod Committing
pub mod Opening
pub mod Inputs
pub mod Resuming
