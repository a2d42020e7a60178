pub mod ChainLemmas
pub mod HeldLemmas
pub mod TextLemmas
pub mod WalkLemmas
