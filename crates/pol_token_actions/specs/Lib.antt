pub mod Access
pub mod Vending
