pub mod ChangeLaws
pub mod ImageLaws
pub mod ItemsRead
pub mod Written
pub mod Limits
mod Rows
