pub mod Kept
pub mod Joined
pub mod Reading
pub mod WordsFree
pub mod Valued
pub mod Ranges
