pub mod Hex
pub mod Numerals
