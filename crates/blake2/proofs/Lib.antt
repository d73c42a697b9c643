pub mod Eights
pub mod Repeat
pub mod Rotate
pub mod Schedules
pub mod Steps
