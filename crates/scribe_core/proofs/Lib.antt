mod Keys
mod Cut
pub mod Facts
pub mod Holding
pub mod Overlay
pub mod Kept
pub mod Receivers
