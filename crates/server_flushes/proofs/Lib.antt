mod Readings
mod Room
mod Commits
mod Tellings
