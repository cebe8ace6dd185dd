pub mod Marks
pub mod Delayed
