pub mod Judged
pub mod Within
