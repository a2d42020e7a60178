pub mod FactOrderLemmas
pub mod LawLemmas
pub mod ListingLemmas
pub mod LiveLemmas
pub mod MadeLemmas
