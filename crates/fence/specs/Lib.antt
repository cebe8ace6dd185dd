pub mod Endings
pub mod Halts
pub mod Port
pub mod Writes
