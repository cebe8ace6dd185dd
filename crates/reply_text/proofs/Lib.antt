pub mod OneReply
pub mod PlainAnswers
