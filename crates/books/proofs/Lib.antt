pub mod Answering
pub mod Cuts
pub mod Usable
pub mod Halving
pub mod Slots
pub mod Places
pub mod RowMeaning
pub mod Relabelling
