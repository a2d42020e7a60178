pub mod ChainLemmas
pub mod HeldLemmas
pub mod ToldLemmas
