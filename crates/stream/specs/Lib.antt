pub mod Examples
pub mod Hash
pub mod Hashes
pub mod Sound
pub mod States
pub mod Streams
pub mod Views
