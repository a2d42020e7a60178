pub mod Laws
pub mod Location
pub mod LocationRefused
pub mod LocationSet
