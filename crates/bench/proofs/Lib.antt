pub mod Cuts
pub mod Dumps
pub mod Frames
pub mod Made
pub mod Places
pub mod Writes
