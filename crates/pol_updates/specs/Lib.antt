pub mod Forms
pub mod Snapshots
pub mod Texts
pub mod Updates
