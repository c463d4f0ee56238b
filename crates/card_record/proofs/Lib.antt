pub mod Loop
pub mod Texts
pub mod FieldLaws
pub mod CardLaws
mod Rows
