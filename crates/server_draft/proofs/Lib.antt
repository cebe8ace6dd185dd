mod Acting
mod Asking
pub mod Counting
mod Following
mod Writing
