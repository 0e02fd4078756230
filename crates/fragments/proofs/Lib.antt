pub mod Seeking
pub mod Returning
pub mod Pieced
pub mod Generated
pub mod Planned
