pub mod Ids
pub mod Metadata
pub mod Numbered
pub mod Snapshot
