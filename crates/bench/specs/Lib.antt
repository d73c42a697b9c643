pub mod Benches
pub mod Buffers
pub mod Dumps
pub mod Sound
