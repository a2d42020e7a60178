pub mod Access
pub mod Counts
pub mod DataNeeds
