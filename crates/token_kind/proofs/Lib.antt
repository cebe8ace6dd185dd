pub mod FlushLemmas
