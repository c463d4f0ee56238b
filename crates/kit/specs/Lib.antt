-- What public clauses cite.
pub mod Addresses
pub mod Chains
pub mod Charsets
pub mod Comments
pub mod Cuts
pub mod Fronts
pub mod Ids
pub mod Letters
pub mod Lines
pub mod Moments
pub mod Numbers
pub mod Options
pub mod Printing
pub mod Reading
pub mod White
