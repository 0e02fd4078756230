pub mod Store
pub mod Places
pub mod Answers
pub mod Burial
pub mod Heads
pub mod Spread
