-- What public clauses cite.
pub mod Written
pub mod Fields
pub mod Dates
pub mod Intended
pub mod Mails
pub mod Refusals
