pub mod Counters
pub mod Facts
pub mod Holders
