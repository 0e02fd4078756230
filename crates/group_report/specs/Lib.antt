pub mod Answers
pub mod Hearings
pub mod Counts
pub mod Report
