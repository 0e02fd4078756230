mod Answering
mod Counting
mod Growing
mod Hearing
