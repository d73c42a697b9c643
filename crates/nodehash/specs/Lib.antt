pub mod Answers
pub mod Hashing
