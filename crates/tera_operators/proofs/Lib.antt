pub mod Views
pub mod Keeping
pub mod Spreading
pub mod Listing
pub mod Undefined
pub mod InPlace
