pub mod Waiting
pub mod Revokes
pub mod Formed
pub mod Order
pub mod Reasons
