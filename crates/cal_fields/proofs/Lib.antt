pub mod BigEndianLemmas
pub mod PaddedLemmas
