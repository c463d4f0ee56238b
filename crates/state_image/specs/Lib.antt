-- What public clauses cite.
pub mod Faults
pub mod Changes
pub mod Images
