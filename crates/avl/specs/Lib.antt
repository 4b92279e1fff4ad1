pub mod Avl
pub mod Fibonacci
pub mod Model
pub mod Laws
