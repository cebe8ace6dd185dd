pub mod Disk
pub mod Faulty
pub mod Homes
pub mod Map
pub mod Sectors
