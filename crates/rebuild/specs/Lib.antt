pub mod Collecting
pub mod Reports
