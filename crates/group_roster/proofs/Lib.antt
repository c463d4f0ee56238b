-- Lemmas.
pub mod Once
pub mod Folds
pub mod Clauses
pub mod Seams
pub mod Slots
pub mod Says
pub mod Joins
pub mod Peoples
pub mod Unchanged
pub mod Listed
pub mod Places
pub mod Groups
pub mod Plain
pub mod Founded
pub mod OneMore
