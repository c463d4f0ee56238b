-- Lemmas.
pub mod Searches
pub mod Zips
pub mod Kept
pub mod Turns
pub mod Ends
pub mod Padded
pub mod Fits
pub mod Shifts
