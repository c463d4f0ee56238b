-- Lemmas.
pub mod ById
pub mod Puts
pub mod Standing
pub mod Changes
