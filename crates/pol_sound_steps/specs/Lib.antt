pub mod Commits
pub mod Steps
