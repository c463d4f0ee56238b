pub mod GluedLines
pub mod Stepping
pub mod Unchanged
pub mod NextMail
pub mod Progress
pub mod Tracing
pub mod Reaching
pub mod Answered
pub mod Skipped
pub mod LineCuts
pub mod Groups
pub mod Grown
pub mod GoingOn
mod Rows
