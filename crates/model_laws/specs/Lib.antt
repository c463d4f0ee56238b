-- What public clauses cite.
pub mod Arrivals
pub mod Strangers
pub mod Numbers
pub mod SameCards
pub mod Clocks
pub mod Questions
pub mod Marks
