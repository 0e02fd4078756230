mod ShortNames
mod Sending
mod Found
mod Drawn
mod InOrder
mod Columns
mod Kept
mod Pieces
