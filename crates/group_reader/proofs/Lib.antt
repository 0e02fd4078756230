mod Cutting
mod Reading
pub mod Sizes
