pub mod Learning
pub mod Told
mod Search
pub mod Nearest
pub mod Hops
