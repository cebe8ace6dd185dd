pub mod Block
pub mod Changed
pub mod Directory
pub mod Index
pub mod Loading
