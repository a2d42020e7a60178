pub mod DecidedLemmas
pub mod KeyLemmas
pub mod MovedLemmas
