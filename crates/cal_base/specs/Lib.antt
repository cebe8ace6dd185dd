pub mod Blocks
pub mod Faults
pub mod Limits
pub mod Memory
pub mod Sink
pub mod Source
