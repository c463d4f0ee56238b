-- What public clauses cite.
pub mod Touched
pub mod Suspects
pub mod Costs
pub mod Ahead
