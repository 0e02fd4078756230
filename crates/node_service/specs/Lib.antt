pub mod Cut
pub mod Conversation
pub mod Written
pub mod Calls
pub mod Session
pub mod Serves
pub mod Steps
pub mod Served
