pub mod Lines
pub mod Traces
pub mod Writing
pub mod Digits
pub mod Lanes
pub mod Fronts
pub mod Answers
