pub mod Actions
pub mod Json
pub mod Laws
pub mod Metadata
pub mod Requests
pub mod Updates
pub mod Versions
