pub mod Exactness
pub mod Sound
pub mod Views
