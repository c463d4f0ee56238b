-- Lemmas.
pub mod Kept
