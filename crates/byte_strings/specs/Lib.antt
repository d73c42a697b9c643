pub mod Decimal
pub mod Hexadecimal
pub mod Strings
