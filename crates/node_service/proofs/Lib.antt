pub mod Cutting
pub mod Answering
pub mod Keeping
pub mod Sessions
pub mod Ways
pub mod Determined
