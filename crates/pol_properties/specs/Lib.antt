pub mod Laws
pub mod Properties
