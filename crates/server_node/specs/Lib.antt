pub mod Node
pub mod Step
pub mod Quiet
pub mod Parts
