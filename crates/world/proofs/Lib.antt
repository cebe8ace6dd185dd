mod Counting
mod Keeping
mod Makes
mod Places
mod Worlds
