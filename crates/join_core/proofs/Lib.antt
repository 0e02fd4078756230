pub mod Listed
pub mod Rows
pub mod Awaited
pub mod Heard
