pub mod GroupedLemmas
mod NumberedFactsLemmas
