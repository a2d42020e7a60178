pub mod ChainLemmas
mod CurrentLemmas
pub mod ListLemmas
pub mod MemberLemmas
mod OrderLemmas
mod RefLemmas
mod SchemaLemmas
mod SequenceLemmas
mod SnapshotLemmas
mod SpecLemmas
pub mod SumLemmas
pub mod ValidLemmas
pub mod WeightLemmas
