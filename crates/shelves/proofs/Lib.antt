pub mod Pushed
pub mod Went
pub mod Rooms
pub mod Conditions
mod Rows
