mod ChainLemmas
pub mod OrderLemmas
