pub mod Totals
pub mod Steps
pub mod Posts
pub mod Joins
pub mod Splits
pub mod Counting
