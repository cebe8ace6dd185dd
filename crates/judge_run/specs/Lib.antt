pub mod Judged
pub mod Passing
pub mod Texts
pub mod Verdicts
