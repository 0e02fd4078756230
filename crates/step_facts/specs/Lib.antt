pub mod Setting
pub mod ReadyCount
pub mod Receivers
