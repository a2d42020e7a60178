pub mod BoundsLemmas
pub mod CountersLemmas
pub mod FactLemmas
pub mod HolderLemmas
