-- What public clauses cite: the moment that the body of a Date field names, and the words of its definition.
pub mod Moment
pub mod Words
pub mod Days
pub mod Clock
pub mod Zones
pub mod Names
pub mod Digits
