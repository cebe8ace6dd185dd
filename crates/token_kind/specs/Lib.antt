pub mod Class
pub mod Hold
pub mod Flush
pub mod Kept
pub mod Token
