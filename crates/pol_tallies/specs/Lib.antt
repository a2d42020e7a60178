pub mod Grouped
pub mod NumberedFacts
pub mod Tally
