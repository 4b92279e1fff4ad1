pub mod Answering
pub mod Comparing
pub mod Opening
pub mod Promises
pub mod TakenIn
pub mod Unmasking
pub mod Walking
