pub mod Leaves
pub mod Room
pub mod Range
pub mod Beside
pub mod Rising
