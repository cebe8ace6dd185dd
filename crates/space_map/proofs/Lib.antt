pub mod First
pub mod FreeBits
pub mod FreeBlocks
