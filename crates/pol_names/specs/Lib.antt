pub mod Laws
pub mod Name
pub mod Namespace
pub mod Plain
