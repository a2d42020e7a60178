pub mod IdsLemmas
pub mod PartitionLemmas
