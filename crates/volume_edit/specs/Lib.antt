pub mod Blocks
pub mod Edit
pub mod Homes
