-- What public clauses cite.
pub mod Linked
-- What the clauses of what is kept and of what is worked off cite.
pub mod Kept
pub mod Work
