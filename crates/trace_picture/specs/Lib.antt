pub mod Keys
pub mod Window
pub mod Verdicts
pub mod Picture
