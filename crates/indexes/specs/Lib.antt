-- What public clauses cite.
pub mod Kept
pub mod Costs
pub mod Moves
pub mod Views
