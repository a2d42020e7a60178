pub mod Members
pub mod PrincipalRoles
pub mod Principals
