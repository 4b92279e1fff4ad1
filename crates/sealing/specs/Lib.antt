pub mod Masking
pub mod Sealed
pub mod Compared
pub mod Opened
pub mod Promises
pub mod SealedOrder
pub mod MaskingLemmas
