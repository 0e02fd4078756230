pub mod Placed
pub mod Telling
pub mod Taking
pub mod Leading
pub mod Hitting
pub mod Counting
