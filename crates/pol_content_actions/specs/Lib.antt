pub mod Catalogs
pub mod Namespaces
pub mod Sessions
