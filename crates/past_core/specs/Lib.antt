pub mod Waits
pub mod Replied
pub mod Acks
pub mod Inserts
pub mod Reclaims
pub mod Weighed
