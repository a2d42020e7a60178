pub mod Fronts
pub mod Queues
pub mod Keeps
pub mod Rests
