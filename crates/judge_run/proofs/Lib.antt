pub mod Cutting
pub mod Ends
pub mod LongLines
pub mod Reading
