pub mod AccessLemmas
pub mod OpenedLemmas
pub mod SeenLemmas
