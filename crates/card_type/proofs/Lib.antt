-- Lemmas of this crate, and rows that compute.
pub mod KeyBytes
pub mod Orders
pub mod Weights
mod Plain
pub mod WorkedCards
mod Rows
