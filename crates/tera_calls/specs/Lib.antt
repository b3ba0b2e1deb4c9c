pub mod Calls
pub mod Renders
pub mod Laws
