-- Lemmas of this crate, and rows that compute.
pub mod Ascii
pub mod ParamLemmas
pub mod SectionLemmas
pub mod SegmentLemmas
pub mod ValueLemmas
mod Rows
