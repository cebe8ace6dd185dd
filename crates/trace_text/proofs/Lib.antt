pub mod PlainLines
pub mod PlainText
pub mod PlainWords
pub mod Trimming
