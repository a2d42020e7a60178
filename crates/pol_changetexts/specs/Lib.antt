pub mod Change
pub mod Codec
pub mod Rows
pub mod Told
