pub mod Format
pub mod Head
pub mod Numbers
pub mod Stands
pub mod Volume
