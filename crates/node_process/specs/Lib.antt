pub mod Texts
pub mod Talk
pub mod Steps
