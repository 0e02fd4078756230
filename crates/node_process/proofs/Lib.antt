mod Talking
mod Writing
