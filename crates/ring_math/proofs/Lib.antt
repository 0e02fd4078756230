pub mod Distances
pub mod Nearness
pub mod Found
pub mod Membership
pub mod Neighbours
pub mod Counts
pub mod Prefixes
pub mod Spelling
