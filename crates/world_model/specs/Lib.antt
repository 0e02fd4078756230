pub mod Recorded
pub mod Numbers
pub mod Stamps
pub mod Cells
pub mod Index
pub mod Worlds
