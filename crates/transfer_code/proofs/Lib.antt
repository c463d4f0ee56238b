pub mod EscapeLemmas
pub mod Groups
pub mod LineTexts
pub mod SymbolRuns
mod Rows
