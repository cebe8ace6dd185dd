pub mod World
pub mod Refusals
pub mod Trace
pub mod Step
pub mod Made
pub mod Quiet
pub mod Taking
