pub mod HistoryLemmas
pub mod ImagesLemmas
pub mod LeadLemmas
pub mod ReadingLemmas
