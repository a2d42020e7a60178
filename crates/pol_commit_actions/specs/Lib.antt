pub mod Commits
pub mod Outcome
pub mod Overlaps
pub mod Renaming
pub mod Replaced
pub mod Rules
pub mod Seen
