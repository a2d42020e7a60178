pub mod BareLemmas
pub mod FormLemmas
pub mod JournalsLemmas
pub mod MakeLemmas
pub mod PreparedLemmas
pub mod ReadLemmas
pub mod SetUpLemmas
