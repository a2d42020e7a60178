pub mod Holding
pub mod Unwritten
