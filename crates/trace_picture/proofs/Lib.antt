mod Following
mod Sides
