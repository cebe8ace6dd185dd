pub mod Totals
pub mod Outcome
pub mod Adding
pub mod Taking
pub mod Whole
