pub mod Levels
pub mod Faultless
pub mod Bodies
pub mod Rounds
pub mod Marks
