pub mod CommitLemmas
pub mod RefLemmas
