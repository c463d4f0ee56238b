-- Lemmas.
pub mod Spaces
pub mod Heads
pub mod Lines
pub mod Dates
