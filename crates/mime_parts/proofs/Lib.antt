-- Lemmas of this crate, and rows that compute.
pub mod CutLemmas
pub mod PartLemmas
pub mod WalkLemmas
mod TreeRows
