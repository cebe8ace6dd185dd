pub mod Places
pub mod Replies
pub mod Telling
pub mod Spelling
