pub mod Copied
pub mod Rising
pub mod Telling
