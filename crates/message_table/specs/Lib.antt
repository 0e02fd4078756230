pub mod Labels
pub mod Messages
pub mod Entries
pub mod Ends
pub mod Table
