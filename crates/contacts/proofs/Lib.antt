-- Lemmas.
pub mod ByAddr
pub mod Lasts
pub mod Pages
pub mod Standing
pub mod Changes
pub mod Sorts
pub mod PageLaws
