-- Laws of lists and maps, and rows that compute.
pub mod ById
mod ChunkSearch
pub mod ChunkSteps
pub mod DistinctLaws
pub mod Elements
pub mod Inserts
pub mod Joined
pub mod Lasts
pub mod Maps
pub mod OneMore
pub mod Rising
mod Rows
pub mod Searches
pub mod Sorted
