pub mod CommitLemmas
pub mod ItemsLemmas
pub mod RenameLemmas
pub mod ReplacedLemmas
pub mod TableLemmas
pub mod TokenLemmas
