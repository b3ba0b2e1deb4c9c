pub mod Ends
pub mod Readings
