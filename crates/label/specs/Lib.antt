pub mod Examples
pub mod Labels
pub mod Meaning
pub mod Rules
