pub mod EndedLines
pub mod GrownLines
pub mod LongLines
pub mod Passed
pub mod Tracing
pub mod Answered
pub mod MomentBounds
mod Rows
