pub mod AboveLemmas
pub mod EndLemmas
pub mod WrittenLemmas
mod Rows
