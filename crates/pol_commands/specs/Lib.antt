pub mod Grants
pub mod Kind
pub mod Reply
pub mod Securables
pub mod Views
