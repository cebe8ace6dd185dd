pub mod Numbers
pub mod ReplyLemmas
