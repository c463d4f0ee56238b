-- Lemmas.
pub mod Prefixes
pub mod Rejoined
pub mod Brought
