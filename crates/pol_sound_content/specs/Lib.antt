pub mod Judged
pub mod Keys
pub mod Valid
