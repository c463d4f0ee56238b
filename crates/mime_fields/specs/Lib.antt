-- What public clauses cite.
pub mod Segments
pub mod RawParams
pub mod Sections
pub mod Params
pub mod Kinds
-- What only proofs and private functions use.
pub mod Views
