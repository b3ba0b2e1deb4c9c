pub mod Context
pub mod Definition
pub mod Prelude
