pub mod Escaped
pub mod Classes
pub mod Thousandths
pub mod Pieces
pub mod Picture
pub mod Document
pub mod Labels
