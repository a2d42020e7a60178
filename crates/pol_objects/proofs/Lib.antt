pub mod Covered
pub mod Searches
pub mod Kept
pub mod Machines
pub mod Places
pub mod Sizes
pub mod Texts
