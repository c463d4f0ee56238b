-- What public clauses cite.
pub mod Answers
pub mod Costs
