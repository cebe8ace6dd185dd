mod Waiting
mod Numbering
pub mod Hearing
pub mod Sending
