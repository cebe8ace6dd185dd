pub mod Each
pub mod Empty
pub mod First
pub mod Formatted
pub mod HeadLemmas
pub mod OneVolume
