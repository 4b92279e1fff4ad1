pub mod Orders
pub mod Numerals
pub mod Names
pub mod Sessions
pub mod Words
pub mod Troubles
