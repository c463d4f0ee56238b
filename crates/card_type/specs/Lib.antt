-- What public clauses cite.
pub mod Groups
pub mod Cards
pub mod Kinds
pub mod Effects
pub mod Keys
pub mod KeyTexts
pub mod Spots
pub mod Records
pub mod Rules
