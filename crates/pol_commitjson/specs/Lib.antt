pub mod Actions
pub mod Commits
pub mod Identifiers
pub mod Members
pub mod Requirements
pub mod Updates
