pub mod Lengths
pub mod Members
pub mod NearLemmas
pub mod Prefixes
pub mod Segments
pub mod Texts
