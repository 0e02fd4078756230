pub mod Asked
pub mod Pledged
pub mod Inputs
pub mod Stepped
pub mod Rows
pub mod Served
pub mod Replies
