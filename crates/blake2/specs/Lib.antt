pub mod Bytes
pub mod Compression
pub mod Schedule
pub mod Variants
pub mod Width
