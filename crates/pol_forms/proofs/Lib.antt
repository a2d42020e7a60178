pub mod LawLemmas
pub mod ListLemmas
pub mod NameRules
pub mod PropertyLemmas
pub mod TextLemmas
