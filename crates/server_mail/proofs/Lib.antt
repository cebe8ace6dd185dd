mod Addressed
mod Coming
mod Repeating
mod Telling
mod Owing
