mod Numerals
pub mod Members
pub mod Tables
pub mod Records
pub mod OneAnswer
