pub mod AgreeLemmas
pub mod DecisionLemmas
pub mod OwesLemmas
pub mod TokensLemmas
