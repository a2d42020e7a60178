pub mod Comparing
pub mod Draft
pub mod Starting
