pub mod Shown
pub mod Said
pub mod Seats
pub mod Messages
pub mod Playing
