pub mod Numbers
pub mod Cuts
mod Pieces
mod Growth
mod Marked
mod Outcomes
mod TooMany
pub mod Sizes
