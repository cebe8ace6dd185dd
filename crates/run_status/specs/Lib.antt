pub mod Code
pub mod Edge
pub mod Printing
pub mod Taking
