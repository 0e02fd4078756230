pub mod BytesRead
pub mod Carrying
pub mod Owning
pub mod Growing
pub mod Serves
pub mod Putting
pub mod Gathered
