pub mod Words
pub mod Places
pub mod Sectors
pub mod Events
pub mod Grammar
pub mod Limits
pub mod Lines
pub mod Reading
