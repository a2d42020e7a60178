pub mod CatalogRoles
pub mod Grants
pub mod Joins
