mod Liking
mod Together
