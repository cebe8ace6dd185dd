mod AfterEdit
mod Applying
pub mod Carrying
mod Damage
mod EntryLists
mod EntryPlans
mod Filling
mod FlushPlans
mod Fresh
mod FreshMade
mod Listing
mod Loading
mod Lookups
mod MarkedPointers
mod Mounting
pub mod Nodes
pub mod Places
mod Reading
pub mod Shifts
mod Shown
mod Standing
mod WalkNeeds
mod Writing
