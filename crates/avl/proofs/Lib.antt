pub mod Balance
pub mod Commuting
pub mod Height
pub mod Inorder
pub mod Meanings
pub mod Relabel
pub mod Slots
pub mod Soundness
