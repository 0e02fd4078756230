mod Parts
mod Seating
mod Listing
mod Happening
