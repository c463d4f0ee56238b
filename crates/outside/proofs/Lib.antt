pub mod Bytewise
pub mod Model
pub mod Whole
pub mod Moments
pub mod Known
pub mod Unchanged
mod Rows
