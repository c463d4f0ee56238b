-- What public clauses cite.
pub mod Frames
pub mod Groups
pub mod Pending
pub mod Spelling
pub mod Tails
pub mod Read
