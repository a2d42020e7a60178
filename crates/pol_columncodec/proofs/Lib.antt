pub mod DistinctLemmas
pub mod FieldLemmas
pub mod InnerLemmas
pub mod NameLemmas
pub mod WrittenLemmas
