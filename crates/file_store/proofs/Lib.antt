pub mod Dictionary
pub mod Slots
pub mod Burying
pub mod Named
pub mod Reached
pub mod Spreading
