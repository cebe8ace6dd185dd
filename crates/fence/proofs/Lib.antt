pub mod EndingLemmas
pub mod RunsLemmas
