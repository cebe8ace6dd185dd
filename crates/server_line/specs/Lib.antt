pub mod Known
pub mod Stopping
pub mod Blocked
pub mod Changed
pub mod Granted
pub mod Served
