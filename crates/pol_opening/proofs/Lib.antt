pub mod AfterLemmas
pub mod LawLemmas
pub mod LeadLemmas
pub mod PutLemmas
pub mod ReadingLemmas
