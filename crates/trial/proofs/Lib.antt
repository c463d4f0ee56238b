-- Lemmas, and worked rows of the definitions.
pub mod AheadLaws
pub mod ArrivalLaws
pub mod Bounds
pub mod MakingCosts
pub mod PageLaws
pub mod PutLaws
mod Rows
