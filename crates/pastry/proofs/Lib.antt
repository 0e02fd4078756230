pub mod ReadToEnd
pub mod Words
pub mod Played
pub mod Endings
pub mod Runs
pub mod Judging
pub mod Dues
pub mod InMode
