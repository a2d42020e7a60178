pub mod Columns
pub mod Distinct
pub mod Laws
pub mod Named
pub mod Shaped
