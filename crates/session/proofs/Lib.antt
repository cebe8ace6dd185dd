pub mod SessionLemmas
pub mod DeliveryLemmas
