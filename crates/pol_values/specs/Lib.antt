pub mod Changes
pub mod Commits
pub mod Tables
pub mod Values
pub mod Views
