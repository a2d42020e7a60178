pub mod FormLemmas
pub mod OrderLemmas
pub mod PairLemmas
