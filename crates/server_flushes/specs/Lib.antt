pub mod Flushes
