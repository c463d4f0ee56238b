-- What public clauses cite.
pub mod Boxes
pub mod Draws
pub mod Forms
pub mod Mails
