mod Covering
mod Going
mod Stating
mod Answering
mod Hearing
mod Reporting
mod Stepping
pub mod Requesting
pub mod Tidying
pub mod Starting
pub mod Sounding
pub mod Counting
pub mod Amounts
pub mod Fitting
pub mod Saying
