pub mod FormLemmas
pub mod WordLemmas
