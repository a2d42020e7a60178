pub mod Catalogs
pub mod Drops
pub mod Names
pub mod Namespaces
pub mod Properties
pub mod Taken
pub mod Views
