pub mod Callees
pub mod Filled
pub mod Found
pub mod Growth
pub mod Lengthened
pub mod Noted
pub mod Parts
pub mod Written
