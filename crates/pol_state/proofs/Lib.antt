pub mod AppliedLemmas
pub mod BoundsLemmas
pub mod ChangesLemmas
pub mod FreshLemmas
