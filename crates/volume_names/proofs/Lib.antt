pub mod Altered
pub mod Kept
pub mod Lookups
pub mod Moving
pub mod Plans
pub mod Slots
pub mod Stood
