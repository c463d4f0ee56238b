-- What public clauses cite.
pub mod Trials
pub mod Summaries
pub mod Costs
pub mod Faults
-- What only private functions use.
pub mod Ahead
