pub mod Booked
pub mod Memory
pub mod Client
pub mod Made
pub mod Sound
