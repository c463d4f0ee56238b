-- Lemmas.
pub mod Around
pub mod Ordered
pub mod OneCard
pub mod Followed
pub mod OneChat
