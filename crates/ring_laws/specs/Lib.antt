pub mod Closings
pub mod Hops
