pub mod Numbers
pub mod Values
pub mod Contexts
pub mod Toml
pub mod Csv
pub mod Laws
