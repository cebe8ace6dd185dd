pub mod SlotBytes
pub mod Order
pub mod Changes
pub mod Tables
pub mod Loads
pub mod Directories
pub mod Laws
pub mod Edits
