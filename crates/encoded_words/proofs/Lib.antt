pub mod WordLemmas
pub mod RunLemmas
mod Rows
