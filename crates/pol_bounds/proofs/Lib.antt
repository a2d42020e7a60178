mod BoundsLemmas
mod CountedLemmas
