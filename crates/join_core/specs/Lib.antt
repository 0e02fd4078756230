pub mod Joining
pub mod Probes
pub mod Leases
pub mod Ends
pub mod Awaited
pub mod Outcomes
