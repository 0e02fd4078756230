mod Growing
mod Numbering
mod Comparing
mod Following
pub mod Reaching
