pub mod CreationLemmas
pub mod ValidLemmas
pub mod WeightLemmas
