pub mod Named
pub mod Positions
pub mod Contexts
pub mod Kept
pub mod Contents
pub mod Powers
pub mod Division
pub mod Hashes
