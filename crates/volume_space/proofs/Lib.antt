pub mod Counts
pub mod Planning
pub mod Refusing
pub mod Taking
