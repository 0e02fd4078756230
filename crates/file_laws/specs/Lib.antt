pub mod Stored
pub mod Given
pub mod Hits
