pub mod Exactness
pub mod Numbers
pub mod Places
pub mod Sound
pub mod Tables
