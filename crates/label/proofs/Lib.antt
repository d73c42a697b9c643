pub mod Fronts
pub mod Inverse
pub mod Lawful
pub mod Names
pub mod Texts
