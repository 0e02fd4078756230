pub mod Board
pub mod Words
pub mod Arrows
pub mod Marks
pub mod Ways
pub mod Course
pub mod Laws
