-- Lemmas of this crate's laws, and rows that compute.
mod Maps
mod Filters
mod InOrder
mod OneOrder
pub mod Parts
pub mod Copies
pub mod Undone
pub mod Strangers
pub mod Faults
pub mod Marks
pub mod Unmarked
pub mod Clocks
pub mod Numbers
pub mod SameCards
pub mod Brought
pub mod Printed
mod Rows
