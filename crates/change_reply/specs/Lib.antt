pub mod ReplyBytes
pub mod ReplyAt
