pub mod CountLemmas
mod FactOrderLemmas
pub mod KeptLemmas
pub mod MayLemmas
pub mod NamesLemmas
pub mod PrivilegeLemmas
pub mod ReferentLemmas
pub mod SecurableLemmas
pub mod SoundLemmas
