mod Found
mod Held
mod Pieces
