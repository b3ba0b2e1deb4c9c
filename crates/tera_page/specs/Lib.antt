pub mod Templates
pub mod Questions
pub mod Answers
