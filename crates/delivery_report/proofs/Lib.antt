mod Closed
mod Counted
mod Found
mod Joins
mod Marks
mod Steps
