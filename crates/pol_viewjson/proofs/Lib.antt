pub mod DepthLemmas
pub mod FormLemmas
pub mod ReadLemmas
pub mod WholeLemmas
