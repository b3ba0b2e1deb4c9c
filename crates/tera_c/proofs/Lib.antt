pub mod Pointers
pub mod Handles
