mod Counts
mod Sending
mod Turns
mod Covered
mod Asking
