-- Lemmas of this crate.
pub mod Uids
