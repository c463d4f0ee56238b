pub mod TokenLemmas
pub mod LastLemmas
pub mod Rest
pub mod WrittenTokens
pub mod AddrLemmas
pub mod WrittenLaw
mod Rows
