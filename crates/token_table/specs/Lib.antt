pub mod Table
pub mod Blockers
pub mod Changes
pub mod Series
