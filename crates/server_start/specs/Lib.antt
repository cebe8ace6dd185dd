pub mod Asks
pub mod Boots
pub mod Disks
pub mod Formats
pub mod Halting
pub mod Opening
pub mod Turns
