-- Lemmas of this crate, and rows that compute.
pub mod CardLemmas
pub mod ContentsLemmas
pub mod FileLemmas
pub mod IdLemmas
pub mod JoinLemmas
pub mod KeptLemmas
pub mod LeafLemmas
pub mod LineLemmas
pub mod PartLemmas
pub mod ReactionLemmas
pub mod TextLemmas
pub mod WayLemmas
mod ContentsRows
mod FileRows
mod Mails
mod ReactionRows
mod ShownRows
