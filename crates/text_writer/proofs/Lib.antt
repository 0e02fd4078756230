pub mod Tables
pub mod Digits
mod Blocks
