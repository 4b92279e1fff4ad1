pub mod Bits
pub mod Every
pub mod Ordering
pub mod Packing
pub mod Zeros
