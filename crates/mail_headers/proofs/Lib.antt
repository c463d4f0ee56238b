-- Lemmas of this crate, and rows that compute.
pub mod Angles
pub mod Continuations
pub mod Names
pub mod SplitLemmas
pub mod FieldLines
pub mod Finds
pub mod HeaderLines
pub mod Layouts
mod Rows
