pub mod Entries
pub mod Filled
