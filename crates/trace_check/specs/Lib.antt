pub mod Verdicts
pub mod Numbers
pub mod Replays
pub mod Words
