pub mod Taking
pub mod Positions
pub mod Dropped
pub mod Traced
pub mod Prefixes
