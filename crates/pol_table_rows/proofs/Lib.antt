pub mod NamesLemmas
pub mod OverlapLemmas
pub mod PlacesLemmas
pub mod TablesLemmas
