pub mod Times
pub mod Rule
pub mod Pass
pub mod Post
