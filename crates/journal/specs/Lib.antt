pub mod Halts
pub mod Commit
pub mod Layout
pub mod Opened
pub mod Replay
pub mod Replays
