pub mod Plain
pub mod Rules
pub mod Parts
pub mod Checks
pub mod Grammar
pub mod Outcome
