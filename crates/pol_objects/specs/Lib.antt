pub mod Contents
pub mod Entries
pub mod Laws
pub mod Machine
pub mod Objects
pub mod Rules
