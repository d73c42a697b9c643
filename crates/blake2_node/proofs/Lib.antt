pub mod Answers
pub mod Fields
