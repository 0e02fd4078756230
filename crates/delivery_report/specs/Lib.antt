pub mod Answers
pub mod Deliveries
pub mod Names
pub mod Report
pub mod Tally
pub mod Texts
