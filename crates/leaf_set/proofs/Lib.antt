pub mod Places
pub mod Learning
pub mod Found
pub mod Neighbours
pub mod Beyond
