pub mod Crash
pub mod Format
pub mod Journal
pub mod Laws
pub mod Refused
