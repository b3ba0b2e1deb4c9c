pub mod Operand
pub mod Accesses
pub mod Operators
pub mod Literals
pub mod Entries
pub mod Calls
pub mod Prelude
