pub mod Grouped
mod Showing
