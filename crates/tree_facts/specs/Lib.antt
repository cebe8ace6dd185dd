pub mod Lasting
pub mod OneName
pub mod Standing
pub mod Writing
