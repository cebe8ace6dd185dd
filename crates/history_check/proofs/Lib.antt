pub mod Calls
pub mod Entering
pub mod Known
pub mod Legal
pub mod OneHistory
pub mod Refusing
pub mod Taking
