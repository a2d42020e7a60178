pub mod Laws
pub mod Metadata
pub mod Whole
