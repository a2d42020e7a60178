pub mod DepthLemmas
pub mod HeldLemmas
pub mod ToldLemmas
pub mod TreeLemmas
