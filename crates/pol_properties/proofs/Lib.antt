mod CutLemmas
mod SetLemmas
pub mod LookUpLemmas
