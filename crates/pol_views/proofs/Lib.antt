pub mod BoundLemmas
pub mod CaseLemmas
pub mod CommitLemmas
pub mod LawLemmas
pub mod LeftLemmas
pub mod ValidLemmas
pub mod WeightLemmas
