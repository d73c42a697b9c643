pub mod Formats
pub mod Lines
pub mod Reader
