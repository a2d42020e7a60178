pub mod Acted
pub mod ObjectHistory
pub mod ObjectImages
pub mod ObjectRecords
pub mod Reading
pub mod Recorded
pub mod Reopened
