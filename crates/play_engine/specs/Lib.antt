pub mod Progress
pub mod Advance
pub mod Coming
