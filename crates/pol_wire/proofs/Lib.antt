pub mod MemorySourceLemmas
pub mod StreamsLemmas
