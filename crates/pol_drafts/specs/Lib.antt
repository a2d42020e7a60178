pub mod Drafts
pub mod Ids
pub mod Orders
pub mod Partitions
pub mod Schemas
