pub mod Columns
pub mod Creation
pub mod Exactness
pub mod FileNames
pub mod Valid
pub mod Weight
pub mod Why
