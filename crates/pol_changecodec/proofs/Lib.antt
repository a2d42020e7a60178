pub mod NameRules
mod OrderLemmas
