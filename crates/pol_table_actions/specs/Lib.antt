pub mod Creation
pub mod Loading
pub mod Tables
