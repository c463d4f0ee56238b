-- Lemmas.
pub mod Causes
