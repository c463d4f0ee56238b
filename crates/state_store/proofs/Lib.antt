pub mod Knowing
pub mod Finding
pub mod Making
pub mod Standing
pub mod Appending
pub mod Saving
pub mod Committing
mod Rows
