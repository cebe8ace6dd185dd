pub mod Answering
pub mod ByteLemmas
pub mod DirectoryNames
pub mod Histories
pub mod IdleLemmas
pub mod OpenFiles
pub mod PartAnswers
pub mod PartLemmas
pub mod PartNeeds
pub mod PathParts
pub mod Places
pub mod PurgeLemmas
pub mod Sweeping
pub mod Walks
pub mod EntryOrder
pub mod NameTests
mod Placing
