pub mod HeldLemmas
pub mod IdLemmas
pub mod ToldLemmas
