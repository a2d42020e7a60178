pub mod DepthLemmas
pub mod TextLemmas
pub mod TreesLemmas
pub mod WholeLemmas
