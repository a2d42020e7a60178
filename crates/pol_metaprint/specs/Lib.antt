pub mod Columns
pub mod Json
pub mod Log
pub mod Metadata
pub mod Texts
pub mod Trees
