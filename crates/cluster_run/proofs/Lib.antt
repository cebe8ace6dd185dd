mod Command
mod Ending
mod Ends
mod Going
mod Good
mod Taken
mod Turning
