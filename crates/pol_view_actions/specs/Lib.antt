pub mod Altered
pub mod Creation
pub mod Renaming
pub mod Replacing
pub mod Views
