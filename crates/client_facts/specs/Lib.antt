pub mod Answers
pub mod Leaves
pub mod Lowers
pub mod Takes
