pub mod Deliveries
pub mod Numbers
pub mod Going
pub mod Wholes
pub mod Starting
