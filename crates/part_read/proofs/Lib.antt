-- Lemmas of this crate, and rows that compute.
pub mod OrderLemmas
pub mod Texts
pub mod UpdateLemmas
mod Rows
mod UpdateRows
