pub mod ChangesLemmas
pub mod IssuedLemmas
pub mod OwesLemmas
pub mod WriteLemmas
