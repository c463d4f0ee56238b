pub mod Lists
pub mod Writes
pub mod Choice
pub mod Gates
pub mod Leaves
pub mod Saved
pub mod Fronts
pub mod Found
pub mod Sizes
mod Rows
