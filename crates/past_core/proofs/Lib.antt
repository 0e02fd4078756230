pub mod Places
pub mod Near
pub mod Acking
pub mod Weighing
pub mod Replied
pub mod Reclaiming
pub mod Passing
