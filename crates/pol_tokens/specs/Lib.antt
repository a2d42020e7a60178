pub mod Chains
pub mod Exactness
pub mod HeldTable
pub mod Issued
pub mod Laws
pub mod Text
pub mod Tokens
