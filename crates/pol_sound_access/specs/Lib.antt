pub mod Judged
pub mod Keys
