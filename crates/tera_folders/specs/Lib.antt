pub mod Names
pub mod Errors
