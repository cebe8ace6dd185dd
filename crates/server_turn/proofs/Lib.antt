mod Ending
mod Reading
mod Staying
