-- Lemmas of this crate, and rows that compute.
pub mod Clocks
pub mod Crashes
pub mod Followed
pub mod Refused
pub mod Replied
pub mod Rest
pub mod TrialNumbers
pub mod WordLaws
pub mod WordReadings
mod WordRows
