pub mod Acts
pub mod Draft
