pub mod Base
pub mod Judged
pub mod Laws
