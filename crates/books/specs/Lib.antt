pub mod Calls
pub mod Plain
pub mod Meaning
pub mod Relabelling
pub mod Rows
