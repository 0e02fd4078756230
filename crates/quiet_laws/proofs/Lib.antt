pub mod Has
pub mod Numbers
pub mod OnWay
pub mod Going
pub mod Ending
pub mod Resting
pub mod Full
pub mod Once
pub mod Copies
pub mod Inserts
pub mod Needs
pub mod Joins
pub mod ToReady
pub mod Undone
pub mod Provided
pub mod Granted
pub mod Nobody
mod FirstAnswer
