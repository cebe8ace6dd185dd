pub mod Flushing
pub mod Leads
pub mod Plans
pub mod Removals
pub mod Shown
pub mod Planned
