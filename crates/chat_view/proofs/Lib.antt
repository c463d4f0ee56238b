-- Lemmas.
pub mod States
pub mod Told
pub mod Placed
pub mod Changed
mod Counted
pub mod Numbered
pub mod Makers
pub mod Parts
