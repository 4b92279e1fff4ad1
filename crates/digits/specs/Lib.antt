pub mod Positional
pub mod Orders
