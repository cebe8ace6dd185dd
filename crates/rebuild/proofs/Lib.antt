pub mod Reported
pub mod Lowers
pub mod Pieces
