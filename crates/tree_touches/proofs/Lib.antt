pub mod Changes
pub mod Classes
pub mod Named
pub mod Others
pub mod Staying
pub mod Untouched
