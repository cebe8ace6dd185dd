pub mod Ending
pub mod Halted
pub mod Planned
