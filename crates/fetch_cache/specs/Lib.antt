pub mod Points
pub mod Turns
pub mod Going
pub mod Run
pub mod Text
