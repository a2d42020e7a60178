pub mod Applied
pub mod Bounds
pub mod Changes
pub mod Rows
pub mod Sound
