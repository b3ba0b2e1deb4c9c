pub mod Held
pub mod Options
