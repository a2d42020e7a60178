pub mod Exchanged
pub mod Flats
pub mod Points
pub mod Replaced
