pub mod Coverage
pub mod Closest
pub mod NextHop
pub mod GapFiles
pub mod Links
pub mod Known
