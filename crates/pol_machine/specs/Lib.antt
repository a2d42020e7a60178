pub mod Agree
pub mod Laws
pub mod Machine
pub mod Tokens
