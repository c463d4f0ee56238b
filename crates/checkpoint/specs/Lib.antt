-- What public clauses cite.
pub mod Slots
pub mod Kept
pub mod Saves
pub mod Known
-- What only private functions and proofs cite.
pub mod Parts
