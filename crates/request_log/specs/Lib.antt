pub mod Slot
pub mod Judge
pub mod Kept
