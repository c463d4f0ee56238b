-- What public clauses cite.
pub mod Base64
pub mod Encodings
pub mod Escapes
pub mod Quoted
