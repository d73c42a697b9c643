pub mod Decimals
pub mod Hexadecimals
pub mod Strings
