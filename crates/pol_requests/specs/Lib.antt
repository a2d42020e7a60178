pub mod Keys
pub mod Laws
pub mod Refused
pub mod Table
