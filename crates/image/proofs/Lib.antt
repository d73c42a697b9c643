pub mod Extents
pub mod Outcomes
pub mod Sound
