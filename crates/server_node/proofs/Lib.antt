mod Hearing
mod Spoken
mod Unopened
mod Unwritten
mod Refusing
mod Stepping
mod Fresh
