pub mod Lines
pub mod Fits
pub mod Judging
pub mod Steps
pub mod Turns
