pub mod BigEndian
pub mod Padded
pub mod Filled
pub mod Flag
