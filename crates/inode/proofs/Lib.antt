pub mod InodeLemmas
