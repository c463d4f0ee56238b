-- What public clauses cite.
pub mod Standing
pub mod Makers
pub mod Parts
pub mod Changes
