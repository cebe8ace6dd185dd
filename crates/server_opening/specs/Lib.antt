pub mod Opens
pub mod Owed
pub mod Ungranted
