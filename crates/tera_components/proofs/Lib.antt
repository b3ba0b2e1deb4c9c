pub mod Rows
pub mod Arguments
pub mod Kept
pub mod LeftOver
pub mod Calls
