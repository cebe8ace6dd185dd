mod Ending
mod Left
mod Planning
