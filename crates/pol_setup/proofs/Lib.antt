pub mod SetupLemmas
