pub mod OneNode
pub mod Finding
pub mod Listing
pub mod MoreEvents
pub mod Happening
pub mod Newest
