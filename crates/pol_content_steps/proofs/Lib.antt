pub mod AlongLemmas
pub mod CatalogLemmas
pub mod DropLemmas
pub mod NameLemmas
pub mod NamespaceLemmas
pub mod PropertyLemmas
pub mod TakenLemmas
pub mod ViewLemmas
