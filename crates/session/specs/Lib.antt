pub mod Body
pub mod Session
pub mod Delivery
pub mod SessionFields
