pub mod Data
pub mod Engines
pub mod Paths
pub mod Pages
pub mod Previews
pub mod Unread
pub mod Made
pub mod Laws
