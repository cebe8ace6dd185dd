pub mod MarkLemmas
pub mod ByteLemmas
pub mod PieceLemmas
pub mod TurnLemmas
