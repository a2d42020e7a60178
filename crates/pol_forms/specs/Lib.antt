pub mod Agreement
pub mod Enums
pub mod Form
pub mod Forms
pub mod Laws
pub mod Names
pub mod Reading
pub mod Refused
