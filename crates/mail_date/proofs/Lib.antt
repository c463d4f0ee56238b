-- Lemmas of this crate, and rows that compute.
mod Rows
pub mod WordLemmas
