pub mod Learning
pub mod Found
pub mod Places
