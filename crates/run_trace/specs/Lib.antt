pub mod Counted
pub mod Past
pub mod Texts
pub mod Traces
