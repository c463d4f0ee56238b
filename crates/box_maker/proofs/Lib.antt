-- Lemmas, and worked rows of the definitions.
pub mod BoxLaws
pub mod DigitLaws
pub mod DrawLaws
mod Rows
