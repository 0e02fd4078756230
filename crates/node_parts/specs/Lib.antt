pub mod Seats
pub mod Sound
pub mod Seen
pub mod Change
pub mod Makes
pub mod Fits
pub mod Plans
pub mod Views
