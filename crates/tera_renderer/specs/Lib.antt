pub mod Outcomes
pub mod Held
pub mod Calls
pub mod Meanings
pub mod Numbers
