pub mod Blocks
pub mod Depths
