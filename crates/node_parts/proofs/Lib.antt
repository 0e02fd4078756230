pub mod Making
pub mod Views
