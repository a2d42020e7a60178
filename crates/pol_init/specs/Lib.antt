pub mod Drawing
pub mod FirstRecord
pub mod Journals
pub mod Output
pub mod Prepared
pub mod Reading
pub mod SetUp
