pub mod OneWord
pub mod Spelled
pub mod Within
pub mod WordsFree
