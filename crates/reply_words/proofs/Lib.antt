pub mod Again
pub mod Read
pub mod Within
