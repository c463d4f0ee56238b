-- Lemmas of this crate, and rows that compute.
pub mod Turning
pub mod Going
pub mod Spending
pub mod Committing
pub mod Rounds
pub mod Inputs
pub mod Starting
pub mod NextChange
pub mod Resuming
pub mod Counting
mod FeedRows
