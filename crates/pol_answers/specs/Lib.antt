pub mod Json
pub mod ManagementJson
pub mod Refusals
pub mod TableJson
pub mod Texts
pub mod ViewJson
