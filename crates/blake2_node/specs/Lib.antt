pub mod Examples
pub mod Meaning
pub mod Nodes
pub mod Parameters
pub mod Sound
