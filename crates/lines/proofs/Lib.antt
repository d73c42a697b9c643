pub mod Codecs
pub mod Cuts
pub mod Formats
pub mod Readers
