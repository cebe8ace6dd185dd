pub mod Formatted
pub mod Packets
pub mod ReadTwice
pub mod CreateFile
pub mod ForeignRead
