pub mod Between
pub mod Packets
