pub mod BodyLemmas
pub mod EntriesLemmas
pub mod KeyLemmas
pub mod ListLemmas
pub mod PathLemmas
