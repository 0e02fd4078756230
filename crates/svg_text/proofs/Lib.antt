mod Plain
pub mod Pieces
pub mod Written
