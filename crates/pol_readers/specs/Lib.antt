pub mod Entries
pub mod Exactness
pub mod Forms
pub mod Grammar
pub mod Laws
pub mod Path
pub mod Reading
pub mod Shape
