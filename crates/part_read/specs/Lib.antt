-- What public clauses cite.
pub mod Receipts
pub mod Updates
pub mod Orders
-- What only private functions use.
pub mod Views
