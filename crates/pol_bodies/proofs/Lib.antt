pub mod CommitBodyLemmas
pub mod TableBodyLemmas
pub mod UnreadLemmas
pub mod ViewBodyLemmas
