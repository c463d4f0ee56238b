-- Lemmas.
pub mod UidMaps
pub mod Entries
pub mod Indexes
pub mod Places
pub mod Changed
pub mod Kept
pub mod Planned
pub mod Restored
