pub mod Reached
pub mod Older
