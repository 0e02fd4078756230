pub mod Quiet
pub mod Closed
pub mod Excuses
pub mod Laws
