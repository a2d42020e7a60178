pub mod DataLemmas
pub mod FairTokenLemmas
pub mod HolderLemmas
pub mod LiveTokenLemmas
