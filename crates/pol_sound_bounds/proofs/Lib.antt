pub mod BoundLemmas
pub mod WeightLemmas
