pub mod ChangesLemmas
pub mod CountLemmas
pub mod FactChangesLemmas
pub mod FactsLemmas
mod FirstsLemmas
mod IndexLemmas
pub mod ListLemmas
pub mod NamedLemmas
pub mod NumberedLemmas
pub mod OrderLemmas
mod PlaceLemmas
pub mod ReplayLemmas
pub mod RisingLemmas
pub mod SameLemmas
pub mod SlotLemmas
pub mod TableLemmas
